pub mod inner
pub mod Marks
pub mod Needs
pub mod Rising
pub mod Sizes
