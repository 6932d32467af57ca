pub mod FenceLemmas
pub mod GrantLemmas
