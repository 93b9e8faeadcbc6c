pub mod Cells
pub mod Rules
pub mod Signs
