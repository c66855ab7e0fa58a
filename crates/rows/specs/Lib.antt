pub mod Rows
pub mod Lines
pub mod Whole
pub mod Laws
