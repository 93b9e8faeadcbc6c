pub mod Counted
pub mod Grafting
pub mod Idle
pub mod Lone
pub mod Orders
pub mod Signed
