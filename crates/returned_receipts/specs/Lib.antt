pub mod BookQ
pub mod Laws
