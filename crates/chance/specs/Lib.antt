pub mod Counts
pub mod Chance
pub mod ChanceBatch
