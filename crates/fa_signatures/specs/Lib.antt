pub mod CutForests
pub mod CutPieces
pub mod inner
