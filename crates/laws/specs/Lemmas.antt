pub mod Agree
pub mod LastArm
pub mod Repeats
