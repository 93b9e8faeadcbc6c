pub mod inner
pub mod Made
pub mod Parts
pub mod Ports
pub mod Sites
