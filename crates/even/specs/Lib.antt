pub mod EvenCycles
pub mod Strides
pub mod Slacks
pub mod Leads
