pub mod First
pub mod Keys
pub mod Seen
pub mod OnWay
pub mod TreeLaws
pub mod ListedLaws
pub mod LevelLaws
pub mod Sounds
