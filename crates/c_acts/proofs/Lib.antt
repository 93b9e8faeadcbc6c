pub mod Dying
pub mod PathLemmas
mod Rows
