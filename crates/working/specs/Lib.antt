pub mod Events
pub mod Example
pub mod Sessions
pub mod Voters
