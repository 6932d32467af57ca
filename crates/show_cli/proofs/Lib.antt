pub mod CompareLemmas
pub mod ShowLemmas
pub mod StoryLemmas
