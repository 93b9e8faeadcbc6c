pub mod Calls
pub mod Weights
pub mod inner
