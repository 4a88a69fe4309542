pub mod Lunch
