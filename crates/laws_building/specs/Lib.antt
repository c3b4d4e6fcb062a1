pub mod Cuts
pub mod Built
pub mod Fresh
pub mod Sized
pub mod Splits
pub mod Layout
pub mod Groups
pub mod Seen
