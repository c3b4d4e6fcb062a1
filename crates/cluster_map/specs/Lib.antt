pub mod Map
pub mod Paths
