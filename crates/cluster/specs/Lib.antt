pub mod Drives
pub mod Patience
