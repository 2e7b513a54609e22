pub mod InnerBlocks
pub mod InnerPairs
pub mod Pairs
pub mod Reasons
pub mod Renumber
