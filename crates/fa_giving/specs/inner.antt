pub mod Shaped
pub mod Totals
pub mod Worths
