pub mod SizeLimits
pub mod Sizes
pub mod Limits
pub mod Groups
pub mod Log
pub mod Compute
