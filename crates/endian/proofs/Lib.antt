pub mod Laws
pub mod Fields
pub mod Tables
pub mod Order
pub mod Consecutive
pub mod Widths
