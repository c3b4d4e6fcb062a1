pub mod Record
pub mod Columns
pub mod Indexes
pub mod Case
pub mod Sound
pub mod Generated
