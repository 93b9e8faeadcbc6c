pub mod Depths
