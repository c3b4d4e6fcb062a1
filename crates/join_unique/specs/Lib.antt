pub mod Groups
pub mod Later
pub mod Reads
pub mod Roots
pub mod Tables
