pub mod ReadFrom
pub mod Varlena
pub mod Stored
pub mod Law
pub mod Faults
pub mod First
pub mod Ends
pub mod InTurn
