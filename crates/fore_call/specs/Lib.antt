pub mod Calls
pub mod Generated
pub mod Names
pub mod Promises
pub mod Verdict
pub mod inner
