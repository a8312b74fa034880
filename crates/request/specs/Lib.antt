pub mod Options
pub mod Parse
pub mod Defaults
pub mod Cases
