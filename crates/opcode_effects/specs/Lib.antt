pub mod Inner
pub mod Theorems
