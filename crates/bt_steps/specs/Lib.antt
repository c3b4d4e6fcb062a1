pub mod Pages
pub mod Ways
pub mod Sought
pub mod WayLaws
pub mod Entries
