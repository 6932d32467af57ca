pub mod Bridges
pub mod Capacities
pub mod Coteries
pub mod Counts
pub mod Meetings
pub mod Words
