pub mod Inclusions
pub mod inner
