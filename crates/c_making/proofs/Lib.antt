pub mod CallLemmas
pub mod FunctionLemmas
pub mod MakingLemmas
pub mod ScopeSteps
