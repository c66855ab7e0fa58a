pub mod Input
pub mod Printed
pub mod Lines
pub mod Faults
pub mod Conferred
