pub mod Status
pub mod Named
pub mod Lemmas
pub mod Theorems
