pub mod Answers
pub mod Calls
pub mod Rounds
pub mod Steps
pub mod Turns
pub mod Walks
