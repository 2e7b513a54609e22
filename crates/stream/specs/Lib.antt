pub mod Expected
pub mod Heads
pub mod Tallies
