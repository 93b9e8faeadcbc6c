pub mod Chains
pub mod Failing
pub mod inner
