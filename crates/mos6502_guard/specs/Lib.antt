pub mod Guarding
pub mod Lemmas
pub mod Stopping
pub mod Theorems
