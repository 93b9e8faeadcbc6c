pub mod NamedFileLemmas
pub mod OutsideLemmas
mod OutsideRows
pub mod ReadLemmas
