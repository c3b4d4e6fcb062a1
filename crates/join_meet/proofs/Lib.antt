pub mod Meets
pub mod PlainKeys
pub mod Some
