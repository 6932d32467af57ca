pub mod HeadLemmas
pub mod LevelLemmas
pub mod LineLemmas
pub mod LockLemmas
pub mod NameLemmas
pub mod PlaceLemmas
pub mod SenderLemmas
