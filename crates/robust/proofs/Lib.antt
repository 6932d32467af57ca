pub mod LimitLemmas
pub mod PlannedLemmas
