pub mod Answers
pub mod Bytes
pub mod Contents
pub mod Reasons
