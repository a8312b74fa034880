pub mod Answers
pub mod There
