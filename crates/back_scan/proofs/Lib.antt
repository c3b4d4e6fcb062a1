mod Counts
mod Reading
pub mod Arriving
