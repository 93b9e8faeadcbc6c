pub mod NodeLemmas
mod Rows
pub mod StateLemmas
