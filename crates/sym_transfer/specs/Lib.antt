pub mod Edited
pub mod inner
