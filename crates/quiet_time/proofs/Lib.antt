pub mod Split
pub mod QuietLemmas
pub mod EndLemmas
pub mod LifeLemmas
