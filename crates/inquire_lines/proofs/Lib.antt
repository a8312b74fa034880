pub mod Items
pub mod Example
