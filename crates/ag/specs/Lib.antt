pub mod Sector
pub mod Agf
pub mod Agi
pub mod Agfl
pub mod Decode
