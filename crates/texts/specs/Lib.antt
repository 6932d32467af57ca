pub mod Cuts
pub mod Fields
pub mod Forms
pub mod Lines
