pub mod Pieces
pub mod Values
pub mod Filled
pub mod Chunks
pub mod Asked
