pub mod Canonical
pub mod Reasons
