pub mod Between
pub mod Choices
pub mod ComponentLemmas
pub mod GivenTwice
pub mod Fullness
pub mod Given
pub mod Mixed
pub mod NothingGiven
pub mod OneFirst
pub mod Signed
pub mod Witnesses
mod Rows
mod RowsOwned
