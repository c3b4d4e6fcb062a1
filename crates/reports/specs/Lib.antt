pub mod Lists
pub mod Added
pub mod LongLists
pub mod Fields
pub mod Texts
pub mod Show
