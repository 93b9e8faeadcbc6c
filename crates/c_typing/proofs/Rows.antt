-- Worked rows of the definitions, by subject.
pub mod Assignments
pub mod Blocks
pub mod Calls
pub mod Callees
pub mod Definitions
pub mod Files
pub mod Forms
pub mod FunctionPrograms
pub mod Functions
pub mod Limits
pub mod Orders
pub mod Prototypes
pub mod Tests
pub mod Translations
pub mod Weights
