pub mod Example
pub mod Decodings
pub mod OneUse
pub mod Totals
pub mod Table
pub mod Accepted
