pub mod Held
pub mod Magazine
pub mod Room
