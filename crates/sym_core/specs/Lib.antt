pub mod Carried
pub mod Cases
pub mod Explicit
pub mod Kept
pub mod Quiet
pub mod Refined
