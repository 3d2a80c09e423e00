pub mod Span
pub mod Room
pub mod State
