pub mod Named
pub mod Sizings
pub mod Read
