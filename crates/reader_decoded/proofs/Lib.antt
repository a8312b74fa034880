pub mod Example
pub mod Parts
pub mod Slots
pub mod Numbers
pub mod Sectors
pub mod Trees
pub mod Super
pub mod Checks
