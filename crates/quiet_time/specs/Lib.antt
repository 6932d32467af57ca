pub mod Lives
pub mod Quiet
pub mod Runs
