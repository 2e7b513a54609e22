pub mod Answers
pub mod Blocks
pub mod Drawers
pub mod Parts
