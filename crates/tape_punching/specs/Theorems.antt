pub mod Punching
