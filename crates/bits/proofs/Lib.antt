pub mod Bits
pub mod Blocks
pub mod Exchanges
pub mod Gathers
pub mod Numbers
pub mod Walks
