pub mod Numbers
pub mod PlanLaws
pub mod PlanLines
pub mod WordNumbers
pub mod Written
