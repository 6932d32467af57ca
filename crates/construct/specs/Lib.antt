pub mod Answers
pub mod Cyclic
pub mod Grid
pub mod Majority
pub mod Tree
pub mod Wheel
