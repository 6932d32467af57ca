pub mod Entries
pub mod Leases
pub mod Replies
pub mod Saved
pub mod Steps
pub mod VoteMoves
pub mod VoterContract
pub mod Waiting
