pub mod Fronts
pub mod Goings
pub mod Holding
pub mod Kept
pub mod RoundLemmas
pub mod Stacks
pub mod Stepping
pub mod Walks
mod Rows
