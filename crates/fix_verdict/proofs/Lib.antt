pub mod Choices
pub mod Concrete
pub mod Judging
pub mod Rows
pub mod Safety
