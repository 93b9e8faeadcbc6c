pub mod Lift
pub mod inner
