pub mod Wanted
pub mod Lines
pub mod Leaves
