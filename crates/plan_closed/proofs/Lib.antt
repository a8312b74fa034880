pub mod Takings
pub mod Insertions
pub mod Filling
pub mod Mappings
pub mod ClosedForm
pub mod Planning
