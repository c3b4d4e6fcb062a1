pub mod Descents
pub mod WayLaws
pub mod Spots
pub mod Steps
pub mod Leaves
pub mod Texts
