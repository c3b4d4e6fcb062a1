pub mod Bounds
pub mod Numbers
pub mod Read
pub mod Seen
pub mod Words
