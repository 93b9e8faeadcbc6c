pub mod Dropping
pub mod Opening
