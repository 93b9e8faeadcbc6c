pub mod Choices
pub mod Chosen
pub mod FilledRules
pub mod Fillings
pub mod Partition
pub mod SpotRules
pub mod StructFields
mod Rows
