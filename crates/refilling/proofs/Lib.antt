pub mod RefillingLaws
