pub mod GroupLemmas
pub mod PageLemmas
