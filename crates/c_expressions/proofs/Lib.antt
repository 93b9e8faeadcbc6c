pub mod ConditionLemmas
pub mod FirstLemmas
pub mod MeetingLemmas
pub mod OperandLemmas
pub mod Rows
pub mod Stepping
