pub mod Numbers
pub mod Calls
pub mod Inner
pub mod Lemmas
pub mod Theorems
