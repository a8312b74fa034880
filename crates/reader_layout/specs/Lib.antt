pub mod Layouts
pub mod Chunk
