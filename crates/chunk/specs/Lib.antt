pub mod Slots
pub mod Inodes
pub mod Chunk
