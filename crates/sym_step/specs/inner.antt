pub mod Leading
pub mod Needing
pub mod Opening
pub mod Stepping
pub mod Topping
