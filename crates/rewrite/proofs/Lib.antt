pub mod Calls
pub mod FileRewritten
pub mod Pairless
