pub mod Learning
pub mod inner
