pub mod AnyGuard
pub mod Blanking
pub mod Guarding
pub mod Patrolling
