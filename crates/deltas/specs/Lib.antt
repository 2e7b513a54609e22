pub mod Calls
pub mod Deltas
