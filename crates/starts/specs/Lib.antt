pub mod Example
pub mod Peers
pub mod Saved
pub mod Starts
pub mod Worlds
