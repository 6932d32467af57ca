pub mod Calls
pub mod Example
pub mod Steps
pub mod Worlds
