pub mod Turns
pub mod Ended
pub mod Pieces
pub mod Applied
pub mod Halts
pub mod Fronts
