pub mod Picks
pub mod Takes
pub mod Inserts
