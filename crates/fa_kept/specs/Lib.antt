pub mod inner
pub mod Memos
