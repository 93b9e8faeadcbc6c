pub mod Quotients
pub mod Structs
pub mod inner
