pub mod Sizes
pub mod Parts
pub mod Groups
pub mod Generated
pub mod Lengths
pub mod Entries
