pub mod Fronts
pub mod Told
pub mod Steps
pub mod Walking
