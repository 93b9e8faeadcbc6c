mod GeneratedLemmas
mod Rows
