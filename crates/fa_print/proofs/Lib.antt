pub mod HeadLemmas
pub mod ItemLemmas
pub mod MemberLemmas
pub mod NameLemmas
pub mod OrderLemmas
pub mod ReadLemmas
pub mod ReturnedLemmas
mod Rows
