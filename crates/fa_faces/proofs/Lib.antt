pub mod AtTops
pub mod Carried
pub mod Exact
pub mod Faced
pub mod Firsts
pub mod Leading
pub mod Named
pub mod Reaching
mod Rows
pub mod Silent
pub mod Trimmed
pub mod Witness
