pub mod Buckets
pub mod Saved
pub mod Spendings
