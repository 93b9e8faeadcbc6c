mod Rows
pub mod JudgeLemmas
pub mod TopLemmas
