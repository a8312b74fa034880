pub mod Superblock
pub mod Numbers
