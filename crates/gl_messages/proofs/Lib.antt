pub mod AnswerLaws
pub mod AppendLaws
pub mod Appending
pub mod ClientLaws
pub mod FieldLaws
pub mod MessageLaws
pub mod StreamLaws
pub mod Tagged
