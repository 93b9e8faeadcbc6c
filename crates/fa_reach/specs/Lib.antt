pub mod Choices
pub mod inner
