pub mod Header
pub mod LogGroup
pub mod Answer
pub mod Bit
