pub mod Freeable
