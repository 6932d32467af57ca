pub mod CallLemmas
pub mod Keeping
pub mod Pieces
