pub mod MetLaws
pub mod SlotLaws
pub mod PutLaws
pub mod BlockLaws
pub mod StartLaws
pub mod WholeLaws
pub mod BlockRowLaws
