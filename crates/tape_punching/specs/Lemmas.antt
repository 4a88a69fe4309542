pub mod Punching
pub mod Outcomes
