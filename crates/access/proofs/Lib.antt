pub mod Accesses
pub mod Answers
pub mod Budgets
pub mod Counts
pub mod LanesAndRows
pub mod Tables
