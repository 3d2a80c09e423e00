pub mod Deposit
pub mod Rotated
