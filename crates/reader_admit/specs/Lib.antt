pub mod Admit
pub mod Profile
