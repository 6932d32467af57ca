pub mod CountLemmas
pub mod Lists
pub mod Meetings
pub mod Members
pub mod Options
pub mod SetLemmas
pub mod SumLemmas
pub mod SumsBelow
