pub mod Same
pub mod Named
pub mod Answers
