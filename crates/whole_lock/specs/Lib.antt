pub mod Quorums
pub mod Example
