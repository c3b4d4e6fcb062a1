mod Unwritten
pub mod Exact
