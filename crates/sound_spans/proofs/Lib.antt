pub mod WordTests
pub mod TestLaws
pub mod SpanWords
pub mod SpanTurns
