pub mod Works
pub mod Granted
pub mod Example
