pub mod Ahead
pub mod Turns
pub mod Concluded
