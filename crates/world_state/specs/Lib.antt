pub mod Numbered
pub mod States
pub mod Steps
