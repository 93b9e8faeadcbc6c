pub mod ChangedRoots
pub mod DatumPuts
pub mod DatumSound
pub mod DatumTrees
pub mod EditedSound
pub mod FieldPlaces
pub mod Gifts
pub mod LeafPuts
pub mod LeafSound
pub mod NewForests
pub mod NewTrees
pub mod OtherVars
pub mod PlainFields
pub mod PutSpots
mod Rows
pub mod TopSpots
