pub mod Accepted
pub mod Profile
