pub mod Example
pub mod Worlds
