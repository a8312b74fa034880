pub mod Splitting
pub mod Accepted
pub mod Which
pub mod PieceLaws
pub mod Lent
