pub mod Summaries
pub mod Narrow
