pub mod Printed
pub mod Filling
