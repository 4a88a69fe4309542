pub mod Extracting
pub mod Guarding
