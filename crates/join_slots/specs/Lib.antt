pub mod BlockRows
pub mod Met
pub mod Slots
pub mod Told
