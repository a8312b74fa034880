pub mod Ceil
pub mod Wide
pub mod Small
pub mod Bounding
pub mod Sizings
pub mod Inside
