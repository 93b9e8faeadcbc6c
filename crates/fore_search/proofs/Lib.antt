mod Rows
pub mod Searches
