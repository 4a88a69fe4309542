pub mod OneResult
pub mod Within
