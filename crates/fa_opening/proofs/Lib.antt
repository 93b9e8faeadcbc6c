pub mod BaredFields
pub mod BaredKept
pub mod BaredRoots
pub mod ClearedCells
pub mod LiftedGivers
pub mod LowerEdges
pub mod OneEdge
pub mod OpenedForests
pub mod PlainForests
pub mod Rounds
mod Rows
pub mod ShownFields
pub mod SlotEdges
pub mod SplitFields
pub mod Steps
pub mod UsedBoxes
