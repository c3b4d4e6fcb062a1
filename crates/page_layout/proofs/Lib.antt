pub mod Writing
mod OneBit
