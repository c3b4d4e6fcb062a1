pub mod Roots
pub mod Entries
pub mod Reading
pub mod Gathering
