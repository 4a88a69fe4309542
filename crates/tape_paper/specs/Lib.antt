pub mod Tapes
pub mod Grammar
pub mod Inner
pub mod Lemmas
pub mod Theorems
