pub mod Trees
pub mod Questions
pub mod Passes
pub mod Found
pub mod Broken
pub mod Seen
