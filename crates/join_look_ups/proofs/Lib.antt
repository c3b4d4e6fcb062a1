pub mod Cases
pub mod Owed
mod Spots
pub mod Taken
pub mod Widths
