pub mod Halted
pub mod Lemmas
pub mod Theorems
