pub mod PublicLaws
