pub mod Counted
pub mod Distinct
pub mod FreeItems
pub mod ItemCounts
pub mod LoopFree
pub mod Rows
pub mod Sums
