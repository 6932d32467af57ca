pub mod AfterLosses
pub mod LiveRounds
pub mod LostVotes
pub mod Moves
pub mod Overtaking
pub mod Patience
pub mod Rounds
pub mod Rules
