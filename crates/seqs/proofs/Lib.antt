pub mod Laws
pub mod Validity
pub mod Weights
pub mod Parts
pub mod Members
pub mod Chains
