pub mod HeldLemmas
pub mod ListLemmas
