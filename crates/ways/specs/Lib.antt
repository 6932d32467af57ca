pub mod Leads
pub mod Leaders
