pub mod Checking
pub mod Logs
pub mod Inner
pub mod Lemmas
pub mod Theorems
