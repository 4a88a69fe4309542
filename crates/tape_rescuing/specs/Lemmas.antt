pub mod Lengths
pub mod Worth
pub mod Saved
pub mod Passing
pub mod Outcomes
