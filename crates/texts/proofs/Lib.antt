pub mod CutLemmas
pub mod FieldLemmas
pub mod LineLemmas
pub mod Numbers
