pub mod Batches
pub mod Cases
pub mod Numbers
pub mod Refusals
pub mod Singles
pub mod Tables
