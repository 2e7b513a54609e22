pub mod Compared
pub mod Expected
