pub mod Lemmas
pub mod Theorems
