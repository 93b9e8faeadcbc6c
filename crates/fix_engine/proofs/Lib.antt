pub mod Growing
pub mod Rounding
pub mod Starting
pub mod TakenUp
