pub mod Asked
pub mod Printing
pub mod Taking
