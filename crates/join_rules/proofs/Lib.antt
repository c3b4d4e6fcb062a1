mod Each
pub mod Alive
pub mod Duplicates
mod Judging
