pub mod CountedLaws
pub mod FilledRecords
pub mod NamedRecords
