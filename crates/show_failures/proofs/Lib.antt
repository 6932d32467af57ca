pub mod BridgeLemmas
pub mod GroupLemmas
pub mod ListLemmas
pub mod NameLemmas
pub mod ResilienceLemmas
pub mod UsedLemmas
pub mod VoterLemmas
pub mod WithoutLemmas
