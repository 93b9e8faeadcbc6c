pub mod Answering
pub mod Covering
pub mod Deriving
pub mod Equal
pub mod Extending
pub mod Keeping
pub mod Lasting
pub mod Places
mod Rows
pub mod Searched
pub mod Showing
pub mod Sides
pub mod Tasks
pub mod Trees
pub mod Upward
