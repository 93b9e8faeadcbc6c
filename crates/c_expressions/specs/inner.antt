pub mod DataPaths
pub mod Noting
