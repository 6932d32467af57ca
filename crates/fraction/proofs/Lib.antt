pub mod Lowest
pub mod Passed
pub mod PivotLemmas
pub mod RowLemmas
pub mod RowsLemmas
pub mod SmallLemmas
pub mod SolveLemmas
pub mod SumLemmas
