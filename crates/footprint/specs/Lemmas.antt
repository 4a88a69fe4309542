pub mod Arms
pub mod Footprints
pub mod LastRead
pub mod Ways
