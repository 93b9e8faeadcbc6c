pub mod Joinable
pub mod Joined
pub mod inner
