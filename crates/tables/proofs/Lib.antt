pub mod Tiny
pub mod Worked
pub mod CellLaws
pub mod LentLaws
pub mod MagazineCells
pub mod StatedLaws
pub mod PlaceLaws
