pub mod Devices
pub mod Watching
