pub mod Given
pub mod Parted
pub mod Ruled
