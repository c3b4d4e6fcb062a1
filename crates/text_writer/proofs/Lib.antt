pub mod Encoding
mod Writing
