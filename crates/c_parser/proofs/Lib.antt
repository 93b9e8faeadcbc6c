mod Bases
mod FieldForms
mod ItemKinds
mod NamedItems
pub mod ParseLemmas
mod TypeForms
pub mod Walking
