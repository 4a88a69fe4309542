pub mod Standing
pub mod Counting
pub mod LineFeeds
pub mod Machines
pub mod Lost
