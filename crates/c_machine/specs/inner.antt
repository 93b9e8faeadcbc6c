pub mod Acts
pub mod Going
pub mod Losing
pub mod Needs
