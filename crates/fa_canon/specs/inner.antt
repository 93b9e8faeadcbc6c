pub mod Cutting
pub mod Finished
pub mod Knots
pub mod Merges
pub mod Steps
