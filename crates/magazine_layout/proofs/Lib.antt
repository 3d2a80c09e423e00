pub mod LayoutLaws
pub mod Worked
