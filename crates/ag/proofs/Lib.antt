pub mod Orders
pub mod Slots
pub mod Held
pub mod Ring
