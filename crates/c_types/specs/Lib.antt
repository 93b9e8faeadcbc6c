pub mod Bodies
pub mod Control
pub mod Fits
pub mod Losses
pub mod Over
pub mod Program
pub mod Runs
pub mod Steps
