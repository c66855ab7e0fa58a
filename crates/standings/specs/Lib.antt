pub mod Standing
pub mod Looks
