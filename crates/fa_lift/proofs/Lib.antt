pub mod LiftEdges
pub mod LiftHats
pub mod LiftHoles
pub mod LiftLists
pub mod LiftOwners
pub mod LiftProvides
mod LiftRows
pub mod LiftSound
pub mod LiftSteps
pub mod LiftedForests
pub mod LiftedRoots
