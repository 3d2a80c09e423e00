pub mod AnsweredLaws
pub mod HeapWorked
pub mod FreesWorked
pub mod Worked
pub mod Computed
pub mod Refusals
