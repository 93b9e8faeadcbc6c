pub mod inner
pub mod Machines
pub mod Pending
