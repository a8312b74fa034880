pub mod Heads
pub mod Encoded
pub mod Ending
pub mod WholeList
pub mod Exact
