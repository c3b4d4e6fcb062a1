pub mod Utf8
pub mod Passing
pub mod Rows
pub mod MissingValues
pub mod SoundColumns
pub mod SoundIndexes
pub mod Aligned
pub mod Soundness
