pub mod Freed
pub mod Posts
pub mod inner
