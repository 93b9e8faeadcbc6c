mod Listing
pub mod Numbers
mod Rows
