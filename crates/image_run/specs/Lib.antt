pub mod Report
pub mod Lemmas
pub mod Theorems
