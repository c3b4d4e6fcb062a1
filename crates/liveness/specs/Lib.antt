pub mod Life
pub mod LogFiles
pub mod Logs
pub mod Memory
