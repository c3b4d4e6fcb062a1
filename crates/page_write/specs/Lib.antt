pub mod Pages
pub mod Writing
pub mod Tuples
pub mod Posting
pub mod Fields
pub mod Bodies
