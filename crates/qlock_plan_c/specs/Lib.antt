pub mod Calls
pub mod Numbers
pub mod Orders
pub mod Outputs
pub mod Texts
