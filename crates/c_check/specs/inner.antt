pub mod Heavy
pub mod Items
