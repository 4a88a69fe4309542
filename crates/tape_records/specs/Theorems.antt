pub mod Sums
pub mod Sound
pub mod Complete
pub mod Refused
