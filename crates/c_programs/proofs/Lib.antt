pub mod DeclareLayers
pub mod ProgramLemmas
