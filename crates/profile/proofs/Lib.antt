pub mod Loops
pub mod Labels
pub mod Examples
