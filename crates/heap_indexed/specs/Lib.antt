pub mod Meetings
pub mod Reads
pub mod Works
