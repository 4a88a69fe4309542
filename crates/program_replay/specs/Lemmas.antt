pub mod SameBytes
pub mod Replay
