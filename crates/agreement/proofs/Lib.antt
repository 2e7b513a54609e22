pub mod Bits
pub mod Calls
pub mod Counts
pub mod Singles
