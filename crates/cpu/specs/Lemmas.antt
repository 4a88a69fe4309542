pub mod Clock
pub mod Rounds
pub mod Travelling
pub mod Turning
pub mod Walking
