pub mod Pivots
pub mod Starts
