pub mod Known
pub mod Naming
