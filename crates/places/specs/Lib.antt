pub mod Answers
pub mod InnerWalks
pub mod Places
pub mod Sizes
pub mod Takes
pub mod Transposes
