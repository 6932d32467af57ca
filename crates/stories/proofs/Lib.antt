pub mod GuardLemmas
pub mod PlayLemmas
pub mod Readings
pub mod TurnLemmas
