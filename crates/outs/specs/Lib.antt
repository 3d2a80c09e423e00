pub mod Outs
pub mod Allocated
