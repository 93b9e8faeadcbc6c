pub mod Counts
pub mod Dropped
pub mod Merged
pub mod Reached
pub mod Reordered
pub mod Signed
pub mod inner
