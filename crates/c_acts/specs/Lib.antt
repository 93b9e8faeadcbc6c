pub mod Assigning
pub mod Choices
pub mod Making
