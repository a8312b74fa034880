pub mod Accepted
pub mod Superblocks
pub mod Stations
