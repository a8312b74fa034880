pub mod Core
pub mod Held
