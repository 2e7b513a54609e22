pub mod Chosen
pub mod Files
pub mod Froms
pub mod InnerLookups
pub mod Reasons
pub mod Rows
