pub mod Deeds
pub mod SavedLemmas
