pub mod Ports
pub mod Signatures
pub mod Tops
pub mod inner
