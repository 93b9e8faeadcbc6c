pub mod Classes
pub mod Closings
pub mod Includes
pub mod PlaceLemmas
pub mod ReadingLemmas
mod Rows
pub mod Runs
pub mod Signs
pub mod Sound
pub mod Unique
