pub mod Definitions
pub mod Directories
