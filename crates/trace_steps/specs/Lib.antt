pub mod Traces
pub mod Lemmas
pub mod Theorems
