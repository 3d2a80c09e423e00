pub mod CellsThere
pub mod SpanSteps
pub mod Worked
