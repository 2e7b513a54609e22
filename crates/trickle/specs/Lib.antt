pub mod Answers
pub mod Reasons
pub mod Trickle
