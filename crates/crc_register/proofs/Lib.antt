pub mod Xor
pub mod Register
pub mod Linear
pub mod Words
pub mod Tested
