pub mod Losses
pub mod Regrets
pub mod Worst
