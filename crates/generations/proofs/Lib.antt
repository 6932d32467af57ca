pub mod Bridges
pub mod Example
pub mod Inside
pub mod Order
pub mod TurnExample
pub mod Turns
pub mod Worlds
