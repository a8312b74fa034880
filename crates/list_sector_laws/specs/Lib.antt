pub mod Learned
