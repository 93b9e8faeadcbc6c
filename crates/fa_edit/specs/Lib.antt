pub mod Cells
pub mod Data
pub mod Fits
pub mod Leaves
pub mod Plain
pub mod inner
