pub mod Answered
pub mod Firsts
pub mod Fits
pub mod Growing
pub mod Next
pub mod OneTable
pub mod WellNamed
pub mod Written
mod Rows
