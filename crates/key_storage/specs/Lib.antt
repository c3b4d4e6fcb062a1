pub mod Stored
pub mod Same
pub mod Rows
pub mod RowLists
