pub mod Lists
pub mod Index
pub mod Broken
pub mod Files
pub mod Sound
pub mod Window
pub mod OnWay
