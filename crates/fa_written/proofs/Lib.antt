pub mod FirstLemmas
pub mod Forward
pub mod MoveLemmas
pub mod ReachLemmas
mod Rows
pub mod SplitLemmas
pub mod WholeLemmas
