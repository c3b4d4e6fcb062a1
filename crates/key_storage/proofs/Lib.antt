pub mod StoredLaws
pub mod SameLaws
pub mod RowLaws
