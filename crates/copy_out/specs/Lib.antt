pub mod Escapes
pub mod Fields
pub mod Lines
pub mod Live
pub mod Readings
pub mod Refused
pub mod Laws
