pub mod Numbers
pub mod Reaching
pub mod Rounds
pub mod Limits
pub mod Behind
