pub mod Found
pub mod Numbers
pub mod OneThing
pub mod Ranges
mod Rows
