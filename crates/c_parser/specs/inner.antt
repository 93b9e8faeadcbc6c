pub mod Shapes
pub mod Stops
pub mod Values
