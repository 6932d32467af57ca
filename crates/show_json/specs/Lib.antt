pub mod Compared
pub mod Values
