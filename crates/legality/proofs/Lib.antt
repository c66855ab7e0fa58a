pub mod Fitting
pub mod Reckoning
pub mod Place
pub mod Law
pub mod Advance
