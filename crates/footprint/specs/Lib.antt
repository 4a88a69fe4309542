pub mod Places
pub mod Inner
pub mod Lemmas
pub mod Theorems
