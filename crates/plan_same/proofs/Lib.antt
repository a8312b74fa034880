pub mod Laws
pub mod Planners
pub mod Derived
