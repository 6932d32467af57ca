pub mod CommandLemmas
pub mod DealingLemmas
pub mod ExecuteLemmas
pub mod PartLemmas
pub mod TextLemmas
