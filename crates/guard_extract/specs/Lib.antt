pub mod Extract
pub mod Lemmas
pub mod Stretches
pub mod Theorems
pub mod Words
