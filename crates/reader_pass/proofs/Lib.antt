pub mod States
pub mod Turns
pub mod Accepted
pub mod Left
pub mod Fed
