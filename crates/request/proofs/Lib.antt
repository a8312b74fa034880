pub mod Values
pub mod TwosComplement
pub mod Copies
pub mod Answers
pub mod InputCases
pub mod Longest
