pub mod Calls
pub mod Candidates
pub mod Measures
pub mod Restored
pub mod Widths
