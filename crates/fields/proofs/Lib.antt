pub mod Results
pub mod Finding
pub mod Trim
pub mod NumberLaw
pub mod TextLaw
pub mod Fields
mod Reading
mod Lists
mod Offsets
pub mod Framed
