pub mod Asking
pub mod Example
pub mod Stamps
