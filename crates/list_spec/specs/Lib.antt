pub mod Listing
pub mod Sound
pub mod Left
pub mod Order
pub mod Cut
