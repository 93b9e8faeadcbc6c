pub mod First
pub mod Meeting
pub mod inner
