pub mod LeftOutLemmas
