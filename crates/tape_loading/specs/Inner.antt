pub mod Formats
pub mod Following
