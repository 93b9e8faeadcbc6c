pub mod BackHops
pub mod Reached
pub mod Insides
pub mod inner
