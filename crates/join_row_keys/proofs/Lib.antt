pub mod Ahead
pub mod KeyLaws
mod MoreLaws
pub mod Pages
pub mod Places
pub mod HeapRoots
