pub mod Edited
pub mod News
pub mod Points
