pub mod Owners
pub mod Records
pub mod Leaf
pub mod Decode
