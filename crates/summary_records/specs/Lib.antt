pub mod Structured
pub mod Counting
