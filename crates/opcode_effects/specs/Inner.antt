pub mod Performing
pub mod Storing
