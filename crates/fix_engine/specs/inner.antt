pub mod Rounds
pub mod Starting
pub mod Taking
