pub mod Answers
pub mod Elements
pub mod Places
pub mod Walks
pub mod Wraps
