pub mod Automata
pub mod Explorations
pub mod Phases
pub mod Pools
