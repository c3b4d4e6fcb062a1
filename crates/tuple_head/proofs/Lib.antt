pub mod First
pub mod Exact
