pub mod Laws
pub mod Block
pub mod Held
