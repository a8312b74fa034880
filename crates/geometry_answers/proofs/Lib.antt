pub mod AfterTrim
pub mod Tests
pub mod Again
pub mod Equal
pub mod Exact
