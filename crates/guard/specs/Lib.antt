pub mod Extract
pub mod Guarded
pub mod Lemmas
pub mod Theorems
