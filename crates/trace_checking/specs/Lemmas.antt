pub mod Turns
pub mod Accepting
