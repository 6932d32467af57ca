pub mod Asked
pub mod Example
pub mod GrantLemmas
pub mod LeavingLemmas
pub mod LockLemmas
pub mod SoundLemmas
pub mod ThriftAsked
pub mod ThriftLemmas
