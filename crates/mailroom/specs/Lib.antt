pub mod Losses
pub mod Rooms
