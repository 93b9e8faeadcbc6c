pub mod Arriving
pub mod Exits
pub mod Images
pub mod Posting
pub mod Ready
pub mod inner
