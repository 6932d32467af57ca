pub mod Fractions
pub mod Rows
pub mod Tables
