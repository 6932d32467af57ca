pub mod Example
pub mod Leases
pub mod Saved
pub mod Sessions
