pub mod Reading
pub mod Asked
pub mod Arriving
mod Caching
mod There
pub mod InHand
mod Here
mod Lookups
mod Ways
mod Onward
