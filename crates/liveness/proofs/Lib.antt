pub mod Remembered
pub mod Told
pub mod Truth
pub mod Update
