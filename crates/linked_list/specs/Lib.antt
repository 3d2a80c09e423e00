pub mod Lists
pub mod Reach
pub mod Quiet
pub mod Named
