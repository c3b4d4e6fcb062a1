pub mod Keyed
pub mod Columns
pub mod KeyedShown
pub mod FirstValues
pub mod KeyLaws
