mod DirectoryLemmas
pub mod TableLemmas
