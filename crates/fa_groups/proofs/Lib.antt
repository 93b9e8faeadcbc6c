pub mod Grouping
pub mod Rows
