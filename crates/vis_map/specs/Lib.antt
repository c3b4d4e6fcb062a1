pub mod Bits
pub mod Truth
pub mod Rules
