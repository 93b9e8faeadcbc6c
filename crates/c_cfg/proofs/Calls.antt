-- Calls: which are open where items are pending, and that the parameters of functions that are not active hold no cell.
pub mod BodyHomes
pub mod Homes
pub mod Idle
pub mod OpenCalls
pub mod Params
pub mod Safe
pub mod Standing
