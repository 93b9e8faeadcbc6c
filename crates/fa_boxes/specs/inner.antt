pub mod Parts
pub mod Seeing
pub mod Signs
pub mod TopRules
