pub mod LossLemmas
pub mod NumberLemmas
