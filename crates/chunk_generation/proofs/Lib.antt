pub mod Laws
pub mod Vectors
pub mod Halves
