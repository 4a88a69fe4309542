pub mod Parts
pub mod Cutting
