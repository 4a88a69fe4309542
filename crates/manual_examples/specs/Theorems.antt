pub mod Steps
pub mod Lines
pub mod FirstAddress
pub mod Cycles
