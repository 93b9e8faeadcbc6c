pub mod Chosen
pub mod Divided
pub mod Giving
pub mod Marks
pub mod Split
pub mod inner
