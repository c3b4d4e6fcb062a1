pub mod Rows
pub mod Unique
pub mod Entries
pub mod Lists
pub mod Broken
