pub mod BookP
pub mod Laws
