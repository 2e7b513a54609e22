pub mod Digits
pub mod Exactly
pub mod Texts
