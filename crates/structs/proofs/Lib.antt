pub mod Lengths
pub mod Written
pub mod Encoded
pub mod Reading
pub mod Rising
