pub mod Inner
pub mod Lemmas
pub mod Stop
pub mod Theorems
