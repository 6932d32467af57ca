pub mod Cells
pub mod Shares
pub mod Words
