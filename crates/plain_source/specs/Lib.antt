pub mod Bounded
pub mod Plain
pub mod Laws
