pub mod Stages
pub mod Telling
