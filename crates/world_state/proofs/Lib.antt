pub mod Acts
pub mod Addressed
pub mod Items
pub mod Refused
