pub mod Dinode
pub mod Directory
