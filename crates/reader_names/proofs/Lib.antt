pub mod Inside
pub mod Features
pub mod Back
pub mod Only
pub mod Answer
pub mod Sizings
pub mod Laws
