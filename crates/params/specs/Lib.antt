pub mod Options
pub mod Params
