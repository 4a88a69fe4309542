pub mod Correct
pub mod Proved
