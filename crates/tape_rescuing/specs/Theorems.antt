pub mod Losses
pub mod Buffers
pub mod Kept
pub mod Examples
