pub mod Answers
pub mod Capacities
pub mod Lists
pub mod Named
pub mod Names
pub mod Reading
pub mod Writing
