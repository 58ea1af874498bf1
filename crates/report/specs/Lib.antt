pub mod Refusals
pub mod Readings
pub mod RowReports
pub mod PlanReports
pub mod SweepReports
pub mod Answers
