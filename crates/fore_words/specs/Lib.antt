pub mod CommandLine
pub mod Usage
pub mod Values
pub mod Words
