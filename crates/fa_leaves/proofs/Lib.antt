pub mod Hollow
pub mod MovedWays
pub mod PutSigns
pub mod PluggedParts
pub mod PluggedSigns
pub mod PluggedTrees
pub mod PluggedWays
mod PutWays
pub mod SameWays
