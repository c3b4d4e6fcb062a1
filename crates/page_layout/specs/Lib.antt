pub mod Bits
pub mod Rules
pub mod Page
pub mod Items
pub mod View
pub mod Writes
