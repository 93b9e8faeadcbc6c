pub mod Alike
pub mod Climbing
pub mod Descending
pub mod Imaged
pub mod Kept
pub mod LettingGo
pub mod Making
pub mod OneTop
pub mod Reaching
pub mod Rounding
pub mod Runs
pub mod Shifting
pub mod Sizing
pub mod Smaller
pub mod Standing
pub mod Tasks
pub mod Tops
pub mod Visiting
mod Rows
mod RunRows
mod SimulationRows
mod StateRows
mod UnionRows
