pub mod Example
pub mod Leaving
pub mod Letters
pub mod Locks
pub mod Thrift
