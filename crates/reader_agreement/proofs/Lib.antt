pub mod Laws
pub mod Differing
