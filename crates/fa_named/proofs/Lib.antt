pub mod FirstLemmas
pub mod MarkedLemmas
pub mod Ranked
mod Rows
