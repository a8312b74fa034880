pub mod Blocks
pub mod Sizes
pub mod Sums
pub mod Reading
pub mod Applying
