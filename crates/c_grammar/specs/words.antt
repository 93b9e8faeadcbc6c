pub mod Faults
pub mod Parted
pub mod Sets
pub mod Shapes
