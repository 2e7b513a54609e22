pub mod Calls
pub mod Choice
pub mod Filling
pub mod Least
pub mod Steps
pub mod Widths
