pub mod inner
pub mod Parses
