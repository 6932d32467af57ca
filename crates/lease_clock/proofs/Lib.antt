pub mod ClockLemmas
pub mod LeaseLemmas
pub mod SavedLemmas
