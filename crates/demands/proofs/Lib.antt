pub mod Worked
pub mod Demand1
pub mod Demand2
pub mod OneAnswer
pub mod Demand3
