pub mod Doubled
pub mod Learnt
pub mod Owned
