pub mod Answers
pub mod Delivery
pub mod Texts
pub mod Writings
