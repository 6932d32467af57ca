pub mod Clocks
pub mod Example
pub mod Leases
pub mod Saved
