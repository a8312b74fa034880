pub mod Chunk
pub mod Directory
pub mod Groups
pub mod Roots
pub mod Super
pub mod Left
