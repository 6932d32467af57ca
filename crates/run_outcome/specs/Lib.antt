pub mod Entries
pub mod Refusals
