pub mod OutsLaws
pub mod FillsLaws
pub mod ClaimFills
pub mod BlockOuts
pub mod CallOuts
