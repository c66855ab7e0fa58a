pub mod Digits
pub mod Dates
pub mod Cents
