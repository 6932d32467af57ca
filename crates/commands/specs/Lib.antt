pub mod Commands
pub mod Dealing
pub mod Devices
pub mod Faults
pub mod Parts
pub mod Statuses
