pub mod Holding
pub mod Wrong
pub mod Keeping
