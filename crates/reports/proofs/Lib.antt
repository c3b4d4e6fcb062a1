mod FirstParts
pub mod Upto
pub mod OneAdded
pub mod Parts
pub mod Pairs
