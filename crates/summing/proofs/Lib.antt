pub mod ColumnLaws
pub mod RecordLaws
pub mod StepLaws
pub mod SummaryLaws
pub mod TallyLaws
