pub mod Alternatives
mod DeclareForms
pub mod Declarators
mod FlatForms
mod ForHead
mod NestedForms
pub mod Words
