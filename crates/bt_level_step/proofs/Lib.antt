pub mod Carried
pub mod Keys
pub mod Items
pub mod Pages
