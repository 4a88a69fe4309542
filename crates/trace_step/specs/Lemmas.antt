pub mod Restoring
pub mod Places
pub mod Following
pub mod Equal
