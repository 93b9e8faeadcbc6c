pub mod Abstractions
