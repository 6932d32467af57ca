pub mod Codes
pub mod Pages
