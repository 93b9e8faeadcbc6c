pub mod DepthLemmas
pub mod Threads
pub mod Rows
