pub mod WalkLaws
pub mod ClassTests
