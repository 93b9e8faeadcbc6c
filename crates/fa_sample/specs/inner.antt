pub mod Dressing
pub mod Emitted
pub mod Picked
pub mod Sampled
pub mod Walk
pub mod Written
