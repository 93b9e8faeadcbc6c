pub mod Backs
pub mod Deciding
pub mod Following
pub mod Reduced
pub mod Showing
pub mod Stacks
