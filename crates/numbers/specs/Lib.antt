pub mod Bounds
pub mod Counts
pub mod Results
pub mod Sets
pub mod Sums
