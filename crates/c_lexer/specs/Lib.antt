pub mod Bytes
pub mod inner
pub mod Lexemes
pub mod Places
pub mod Refusals
pub mod Skips
pub mod Tokens
