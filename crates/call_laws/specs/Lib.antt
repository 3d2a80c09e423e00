pub mod Exhausted
pub mod Answers
pub mod Runs
pub mod Batches
pub mod Served
pub mod Histories
pub mod Numbers
