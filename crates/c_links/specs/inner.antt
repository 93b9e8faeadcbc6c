pub mod Counted
pub mod LastArrows
