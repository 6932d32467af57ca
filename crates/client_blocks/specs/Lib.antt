pub mod Bytes
pub mod HeldSteps
pub mod OwnerSteps
