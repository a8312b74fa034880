pub mod Separated
pub mod Inserted
pub mod Kept
pub mod First
pub mod Exactly
pub mod Left
pub mod Numbers
pub mod Order
