mod Lists
mod Passing
pub mod BlockKeys
pub mod Reading
