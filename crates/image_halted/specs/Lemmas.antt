pub mod Copies
pub mod Opening
