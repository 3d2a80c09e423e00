pub mod Sound
pub mod Decided
pub mod Filled
pub mod States
