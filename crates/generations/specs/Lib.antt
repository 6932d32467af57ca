pub mod Example
pub mod Exchanges
pub mod Plans
pub mod TurnExample
pub mod Turns
pub mod Voters
