mod VoterLemmas
mod PlaceLemmas
mod ChoiceLemmas
mod Example
