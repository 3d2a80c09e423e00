pub mod Claimable
