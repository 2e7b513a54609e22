pub mod Changes
pub mod InnerSame
pub mod Listed
pub mod Ranges
