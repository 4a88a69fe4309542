pub mod Moving
pub mod Inner
pub mod Lemmas
pub mod Theorems
