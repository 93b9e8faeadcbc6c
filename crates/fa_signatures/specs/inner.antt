pub mod CutPairs
pub mod CutProducts
pub mod Telling
