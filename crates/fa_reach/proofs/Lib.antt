mod Going
mod Sweeps
mod Known
mod Signed
mod Numbers
mod Decided
pub mod TreeLaws
mod Rows
