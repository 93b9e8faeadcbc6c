pub mod InScope
pub mod ScopeTables
pub mod inner
