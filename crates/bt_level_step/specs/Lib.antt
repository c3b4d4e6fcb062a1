pub mod Roles
pub mod Level
pub mod Shows
pub mod Bounds
pub mod Pages
