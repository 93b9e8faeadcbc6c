pub mod Agreements
pub mod Filled
pub mod Images
pub mod Joined
pub mod Rows
pub mod Sound
