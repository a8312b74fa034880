pub mod Within
pub mod Admitted
pub mod Exactly
pub mod Whole
pub mod Example
