pub mod Entries
pub mod Held
pub mod Said
pub mod Twice
