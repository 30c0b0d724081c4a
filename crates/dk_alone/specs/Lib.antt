pub mod AnswerHistory
pub mod AnswerLaws
