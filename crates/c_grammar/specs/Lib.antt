pub mod Grammar
pub mod Hopeless
pub mod Items
pub mod Signs
pub mod Syntax
pub mod Units
pub mod words
