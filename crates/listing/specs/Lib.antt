pub mod Lines
pub mod Listing
pub mod Lemmas
pub mod Theorems
