pub mod Blocks
pub mod Bodies
pub mod Bytes
pub mod Ranges
