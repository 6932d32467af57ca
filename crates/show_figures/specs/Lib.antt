pub mod Accounts
pub mod Comparisons
pub mod Deals
pub mod Figures
pub mod Shares
pub mod Slacks
