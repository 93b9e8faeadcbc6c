pub mod Bare
pub mod Decided
