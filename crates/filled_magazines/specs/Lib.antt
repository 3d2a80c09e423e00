pub mod Pushable
