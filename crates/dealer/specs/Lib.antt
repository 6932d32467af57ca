pub mod Cycles
pub mod Blocks
pub mod Accounts
pub mod Offices
pub mod Plans
pub mod Tickets
pub mod Invariants
