pub mod ClaimLemmas
pub mod Example
