pub mod LeftOut
pub mod Lives
pub mod Nodes
