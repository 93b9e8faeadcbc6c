pub mod Matching
pub mod Raising
pub mod Refining
pub mod Using
