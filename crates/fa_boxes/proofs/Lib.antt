pub mod AllParts
pub mod AllSeen
pub mod AllSigns
pub mod Alike
pub mod TopRules
mod Rows
