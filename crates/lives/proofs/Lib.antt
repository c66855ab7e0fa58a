pub mod Handing
pub mod Pools
pub mod Lives
pub mod Law
pub mod AnyDrafts
