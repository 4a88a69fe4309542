pub mod Verdicts
pub mod Honest
pub mod Parts
pub mod Cutting
pub mod Overlong
