pub mod Bits
pub mod InnerSteps
