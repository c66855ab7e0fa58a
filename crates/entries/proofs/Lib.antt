pub mod Asking
pub mod Prints
pub mod Takes
