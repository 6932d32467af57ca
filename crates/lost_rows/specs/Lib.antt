pub mod Example
pub mod Relearned
pub mod SameEvents
pub mod Spent
pub mod Voters
