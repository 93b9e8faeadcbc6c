pub mod Grafting
pub mod Leaves
