pub mod Read
pub mod Asked
pub mod Left
pub mod Disk
