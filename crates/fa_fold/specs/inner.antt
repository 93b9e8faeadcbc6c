pub mod Fields
pub mod Folds
pub mod Seeking
