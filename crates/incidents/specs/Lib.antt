pub mod Calls
pub mod Fit
