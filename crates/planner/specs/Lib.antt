pub mod Causes
pub mod Uniform
pub mod Weights
