pub mod Failing
pub mod Names
pub mod Theorems
