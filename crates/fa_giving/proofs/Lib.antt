pub mod NoneGiven
pub mod OnceRules
pub mod RightCells
pub mod RootFields
pub mod ShapeRules
pub mod StructParts
pub mod Sums
pub mod Weights
