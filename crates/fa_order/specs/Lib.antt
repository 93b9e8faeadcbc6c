pub mod Kinds
pub mod Outlines
pub mod Placing
pub mod Visits
pub mod inner
