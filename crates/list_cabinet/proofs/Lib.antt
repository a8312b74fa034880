pub mod Shares
pub mod Entering
pub mod Example
