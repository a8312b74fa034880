pub mod Chunks
pub mod Lengths
