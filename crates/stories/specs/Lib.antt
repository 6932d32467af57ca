pub mod Guards
pub mod Plays
pub mod Scripts
pub mod Turns
