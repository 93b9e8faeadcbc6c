pub mod AlikeBack
pub mod BareNodes
pub mod CommonStore
pub mod Counting
pub mod Deciding
pub mod OneCover
pub mod Rows
pub mod Trails
