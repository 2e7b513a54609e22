pub mod Calls
pub mod Decimal
pub mod Reasons
