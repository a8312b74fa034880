-- Assumes nothing.
pub mod Turns
