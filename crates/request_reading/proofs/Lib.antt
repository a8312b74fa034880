pub mod Pieces
pub mod Readable
