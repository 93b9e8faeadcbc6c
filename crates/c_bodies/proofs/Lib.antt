pub mod BodyLemmas
pub mod FirstFaults
pub mod StatementLemmas
pub mod Swapping
