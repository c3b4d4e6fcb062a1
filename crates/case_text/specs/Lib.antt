pub mod Told
pub mod Written
pub mod Plain
pub mod Faults
