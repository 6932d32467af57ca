pub mod Bridges
pub mod Groups
pub mod Names
pub mod Resilience
pub mod Used
pub mod Without
