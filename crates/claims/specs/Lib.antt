pub mod Claims
pub mod Example
