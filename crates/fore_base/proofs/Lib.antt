pub mod Leaks
pub mod ListLemmas
mod ListRows
pub mod MarkLemmas
pub mod NameLemmas
mod Rows
pub mod ShapeLemmas
