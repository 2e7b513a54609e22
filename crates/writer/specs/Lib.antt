pub mod InnerKept
pub mod Reasons
pub mod Writer
