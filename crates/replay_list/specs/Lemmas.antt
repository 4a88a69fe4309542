pub mod Lost
pub mod Loops
