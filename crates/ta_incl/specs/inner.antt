pub mod Answers
pub mod Founds
pub mod Orders
pub mod Tasks
