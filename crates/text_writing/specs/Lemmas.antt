pub mod Writing
pub mod Written
pub mod Texts
pub mod Left
pub mod Refusals
pub mod Answered
pub mod Delivered
