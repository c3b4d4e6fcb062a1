pub mod Edge
pub mod Pages
pub mod Paths
