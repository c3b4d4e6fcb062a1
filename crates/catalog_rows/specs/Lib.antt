pub mod Arrays
pub mod Element
pub mod Lists
pub mod Laws
