pub mod Forms
pub mod Faults
pub mod Attributes
pub mod Reading
pub mod Shown
pub mod Inline
pub mod Laws
pub mod InTurn
