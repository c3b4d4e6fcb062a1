mod Quiet
mod Segments
mod Bytes
mod Ordered
mod Entries
