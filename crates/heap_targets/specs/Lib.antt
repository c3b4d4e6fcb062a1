pub mod Targets
pub mod Packed
