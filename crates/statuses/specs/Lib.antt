pub mod Statuses
pub mod Theorems
