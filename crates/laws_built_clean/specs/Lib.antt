pub mod Written
pub mod Remade
