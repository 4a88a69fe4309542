pub mod Written
pub mod Numerals
pub mod Delivered
pub mod Counts
pub mod Lemmas
pub mod Theorems
