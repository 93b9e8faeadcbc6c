pub mod Rows
pub mod Tracing
