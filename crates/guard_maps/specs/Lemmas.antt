pub mod Finding
pub mod Maps
