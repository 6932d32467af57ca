pub mod GuardLemmas
pub mod LockLemmas
pub mod StateLemmas
