pub mod Robust
