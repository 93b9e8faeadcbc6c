pub mod Added
pub mod Automata
pub mod Edges
pub mod Found
pub mod PortCells
pub mod Referring
pub mod Thin
