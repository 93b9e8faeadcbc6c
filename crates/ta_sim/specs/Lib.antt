pub mod Relations
pub mod inner
