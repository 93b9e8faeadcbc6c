pub mod EdgeSteps
pub mod Outgoing
