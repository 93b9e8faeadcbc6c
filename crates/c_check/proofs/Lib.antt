pub mod AnswerLemmas
pub mod Answering
pub mod ItemLemmas
pub mod KeptLemmas
