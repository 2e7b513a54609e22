pub mod Calls
pub mod FileRows
pub mod FileWritten
pub mod Keeping
pub mod Laying
pub mod Outcomes
pub mod ReadBack
