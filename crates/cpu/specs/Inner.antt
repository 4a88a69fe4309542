pub mod Travelling
pub mod Turning
