pub mod Bytes
pub mod ChoiceSteps
pub mod SessionSteps
