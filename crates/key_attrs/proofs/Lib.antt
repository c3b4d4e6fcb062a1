pub mod Keying
pub mod PlainKeys
pub mod StoredKeys
pub mod KeyAttributes
