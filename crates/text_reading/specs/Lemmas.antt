pub mod Numbers
pub mod Found
pub mod Counting
pub mod Worth
