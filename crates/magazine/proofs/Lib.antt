pub mod CachedLaws
pub mod MagazineLaws
pub mod OtherMagazines
pub mod PushesLaws
pub mod StepLaws
pub mod Worked
