pub mod Clearing
pub mod Rounds
pub mod Showing
