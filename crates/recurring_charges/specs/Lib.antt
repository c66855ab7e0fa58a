pub mod BookS
pub mod Laws
