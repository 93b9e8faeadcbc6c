mod HeadLemmas
pub mod Rows
pub mod ScopeLemmas
