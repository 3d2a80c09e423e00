pub mod Returnable
