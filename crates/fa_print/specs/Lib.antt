pub mod Conditions
pub mod Lines
pub mod Names
pub mod Returned
pub mod Texts
pub mod inner
