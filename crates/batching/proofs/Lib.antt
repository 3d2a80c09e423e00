pub mod RecordLaws
pub mod AnswerLaws
pub mod BatchLoop
