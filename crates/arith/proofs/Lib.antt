pub mod Both
pub mod Laws
pub mod Loops
pub mod Least
pub mod PowerLaws
pub mod Product
