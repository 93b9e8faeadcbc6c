pub mod Indexes
pub mod inner
pub mod Keys
pub mod Looks
pub mod Pools
