pub mod Worlds
pub mod Rises
pub mod Told
pub mod Known
pub mod Votes
pub mod Example
