pub mod Fronts
pub mod Behind
pub mod Steps
