pub mod Cases
pub mod Edges
pub mod Explicit
pub mod Kept
pub mod Loads
pub mod Refined
