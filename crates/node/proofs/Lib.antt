pub mod NodeLemmas
pub mod VoteLemmas
