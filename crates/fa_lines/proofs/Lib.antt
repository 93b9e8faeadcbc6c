pub mod Complete
pub mod ItemLemmas
pub mod NumberLemmas
pub mod Options
pub mod PieceLemmas
mod Rows
pub mod Sound
pub mod WrittenLines
pub mod WrittenTerms
