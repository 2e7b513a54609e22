pub mod Checks
pub mod Lines
pub mod Listed
pub mod Runs
pub mod Same
pub mod Stages
pub mod Within
