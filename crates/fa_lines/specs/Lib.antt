pub mod inner
pub mod Pieces
pub mod Says
pub mod Spelling
