pub mod Names
pub mod Nodes
pub mod Mail
pub mod Outboxes
pub mod Votes
pub mod PartLaws
