pub mod block
pub mod invariants
pub mod losses
pub mod overtaking
pub mod patience
pub mod rounds
pub mod run
pub mod shade
