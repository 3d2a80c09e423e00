pub mod Large
pub mod Bursts
pub mod Remote
pub mod Aligned
pub mod Middle
pub mod Neighbours
pub mod Tiny
