pub mod HopTables
pub mod Hops
