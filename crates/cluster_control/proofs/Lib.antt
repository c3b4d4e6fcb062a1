pub mod Bits
pub mod Division
pub mod Held
pub mod Said
pub mod Sums
