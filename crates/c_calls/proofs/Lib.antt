mod Callers
mod Capping
pub mod FewCalls
mod Leading
pub mod Places
mod Rows
mod Weighed
