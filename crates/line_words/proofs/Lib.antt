pub mod SpacedLemmas
pub mod TestLemmas
