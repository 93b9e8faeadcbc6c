pub mod Turning
pub mod Weighing
