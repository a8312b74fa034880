pub mod First
pub mod Tables
pub mod Turns
pub mod Blocks
pub mod Numbered
pub mod Asked
pub mod Meaning
pub mod Examples
