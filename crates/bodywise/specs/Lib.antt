pub mod Cursor
pub mod InnerPlaced
pub mod Steps
