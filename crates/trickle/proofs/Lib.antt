pub mod Answers
pub mod Feeds
pub mod Fronts
pub mod States
pub mod Trickle
