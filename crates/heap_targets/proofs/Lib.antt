pub mod Tuples
pub mod Blocks
pub mod Filled
