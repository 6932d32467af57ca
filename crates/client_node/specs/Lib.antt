pub mod Example
pub mod Locks
pub mod Worlds
