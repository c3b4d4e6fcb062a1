pub mod Control
pub mod Crc
pub mod State
pub mod Version
