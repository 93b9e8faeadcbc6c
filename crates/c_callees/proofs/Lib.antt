pub mod CallingLemmas
pub mod CountingLemmas
mod LeadingLemmas
pub mod WeightLemmas
