pub mod GcdLemmas
