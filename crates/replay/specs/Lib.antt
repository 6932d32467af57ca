pub mod Outputs
pub mod RecordTexts
pub mod Records
pub mod Runs
pub mod Scripts
