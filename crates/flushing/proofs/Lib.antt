pub mod FlushingLaws
