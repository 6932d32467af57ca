pub mod ClientLaws
pub mod Clusters
pub mod Losses
pub mod Members
pub mod Records
pub mod Closes
