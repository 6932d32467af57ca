pub mod PlanTexts
pub mod ReadLines
