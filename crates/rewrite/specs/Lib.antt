pub mod InnerPairless
pub mod Reasons
pub mod Rewrite
