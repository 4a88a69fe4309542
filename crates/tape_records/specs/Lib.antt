pub mod Records
pub mod Contents
pub mod Grammar
pub mod Inner
pub mod Lemmas
pub mod Theorems
