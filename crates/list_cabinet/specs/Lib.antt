pub mod Cabinet
pub mod Entering
pub mod Shares
