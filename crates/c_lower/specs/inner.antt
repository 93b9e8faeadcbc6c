pub mod Depths
pub mod Emitting
pub mod Numbering
pub mod Sites
pub mod Sizes
