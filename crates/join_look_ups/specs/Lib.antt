pub mod Looking
pub mod Rows
pub mod Judging
