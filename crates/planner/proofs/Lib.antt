pub mod CauseLemmas
pub mod Degrees
pub mod Divisors
pub mod Ones
