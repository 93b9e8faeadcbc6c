pub mod Refusals
mod Rows
