pub mod Outcome
pub mod Heap
pub mod Primary
pub mod Calls
pub mod Run
pub mod Batch
pub mod Summary
pub mod Answered
