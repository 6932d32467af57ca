pub mod Headers
pub mod Heads
pub mod LockLines
pub mod Names
