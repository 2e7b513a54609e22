pub mod Budgets
pub mod Calls
pub mod Counts
pub mod InnerCounts
pub mod InnerEntries
pub mod Singles
