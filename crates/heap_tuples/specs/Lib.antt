pub mod Tuples
pub mod Places
