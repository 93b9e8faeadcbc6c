pub mod Breaks
pub mod Earlier
pub mod Insides
pub mod inner
pub mod Named
pub mod Places
pub mod Structs
