pub mod Laws
pub mod Order
pub mod Read
pub mod Runs
