pub mod Steps
mod Entries
mod ByValues
