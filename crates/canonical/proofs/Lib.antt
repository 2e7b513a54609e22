pub mod Back
pub mod Calls
pub mod Files
pub mod OursExactly
pub mod Same
pub mod Written
