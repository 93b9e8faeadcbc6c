pub mod Canonized
pub mod inner
