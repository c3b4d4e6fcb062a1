pub mod Apart
pub mod Items
