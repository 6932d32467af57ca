pub mod CallLemmas
pub mod Example
pub mod Working
