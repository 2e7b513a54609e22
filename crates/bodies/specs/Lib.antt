pub mod Bodies
pub mod Ranges
