mod ColumnLaws
mod RootLaws
mod GatherLaws
pub mod HeapRoots
pub mod ListedLaws
