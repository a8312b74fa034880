pub mod Numbers
pub mod Which
pub mod Fits
