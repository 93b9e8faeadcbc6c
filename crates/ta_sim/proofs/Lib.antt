pub mod Counting
pub mod Groups
pub mod Related
pub mod Rounds
pub mod Raised
pub mod Simulated
pub mod Uses
mod Rows
