pub mod Shape
pub mod Cells
pub mod Fresh
pub mod Stated
pub mod Lent
pub mod ListPlace
