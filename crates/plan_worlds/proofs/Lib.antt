pub mod Example
pub mod Votes
pub mod Worlds
