pub mod Answers
pub mod Bits
pub mod Laid
pub mod Singles
pub mod Words
