pub mod All
pub mod Folds
pub mod inner
pub mod Least
pub mod TopFields
