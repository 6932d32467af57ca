pub mod Example
pub mod OwnerLemmas
pub mod StampLemmas
