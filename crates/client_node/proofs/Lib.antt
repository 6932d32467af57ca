pub mod All
pub mod Example
pub mod Sound
pub mod Stands
pub mod Told
pub mod VoteLemmas
