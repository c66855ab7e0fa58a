pub mod Layout
pub mod Lawful
pub mod Meaning
pub mod Words
