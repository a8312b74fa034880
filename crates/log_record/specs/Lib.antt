pub mod Record
pub mod Headers
