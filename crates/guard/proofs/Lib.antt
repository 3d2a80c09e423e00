pub mod GuardLaws
