pub mod Answers
pub mod Restores
pub mod Lanes
pub mod Walks
