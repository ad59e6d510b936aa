pub mod AnswerLaws
pub mod AskLaws
pub mod InputLaws
pub mod KindLaws
pub mod OctetLaws
pub mod PutLaws
pub mod ReadLaws
pub mod MessageLaws
