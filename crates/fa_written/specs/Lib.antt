pub mod Drafts
pub mod Faults
pub mod Forms
pub mod inner
