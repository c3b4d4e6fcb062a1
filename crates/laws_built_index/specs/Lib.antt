pub mod Layouts
pub mod Items
pub mod Pages
pub mod Trees
pub mod Sizes
pub mod Files
