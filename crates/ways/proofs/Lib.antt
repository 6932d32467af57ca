pub mod Clients
pub mod Leading
pub mod Staying
