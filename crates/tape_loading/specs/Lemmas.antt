pub mod Lengths
pub mod Formats
pub mod Following
pub mod Going
