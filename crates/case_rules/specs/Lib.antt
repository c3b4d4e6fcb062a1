pub mod Keys
pub mod Tables
pub mod Spots
pub mod Rules
