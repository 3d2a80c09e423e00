pub mod PlacingMade
pub mod PlacingQuiet
pub mod PlacingKept
