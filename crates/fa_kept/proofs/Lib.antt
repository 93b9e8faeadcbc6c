mod Entries
pub mod Growing
mod Passing
mod Reading
mod Remembered
mod Rows
