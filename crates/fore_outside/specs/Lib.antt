pub mod Counts
pub mod MemShelves
pub mod MemSinks
pub mod NamedFiles
pub mod Outside
