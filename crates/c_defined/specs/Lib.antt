pub mod Defined
pub mod inner
