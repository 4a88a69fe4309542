pub mod Beside
pub mod Lengths
pub mod Stretches
