pub mod ActLinks
pub mod Calling
pub mod Comparing
pub mod inner
