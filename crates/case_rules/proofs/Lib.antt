pub mod Walk
pub mod Values
