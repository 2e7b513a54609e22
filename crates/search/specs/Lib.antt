pub mod InnerBlocks
pub mod Reasons
pub mod Search
pub mod Steps
pub mod Unopened
