pub mod Choices
pub mod Example
pub mod Facts
