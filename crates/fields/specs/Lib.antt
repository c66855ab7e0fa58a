pub mod Places
pub mod Digits
pub mod Text
pub mod Field
pub mod InRow
pub mod Meaning
