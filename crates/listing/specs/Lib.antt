pub mod InnerSame
pub mod Machine
pub mod Text
