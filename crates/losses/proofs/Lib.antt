pub mod BearingLemmas
pub mod Greatest
pub mod LossLemmas
pub mod OneDownLemmas
pub mod OneLoss
pub mod RegretLemmas
pub mod Totals
