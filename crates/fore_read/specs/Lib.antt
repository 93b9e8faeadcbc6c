pub mod Bytes
pub mod Files
pub mod Readings
pub mod Tables
pub mod inner
