pub mod OneFace
pub mod Rows
pub mod SoundBoxes
pub mod Unbroken
