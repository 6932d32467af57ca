pub mod Evidence
pub mod Stands
pub mod Steps
pub mod Told
