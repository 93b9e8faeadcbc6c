pub mod Apart
pub mod Differing
pub mod Joining
