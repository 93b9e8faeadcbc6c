pub mod Folded
pub mod Folds
pub mod Gaining
pub mod Made
