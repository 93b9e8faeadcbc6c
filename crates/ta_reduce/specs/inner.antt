pub mod Determinism
pub mod Leading
pub mod Reduction
pub mod Thinned
