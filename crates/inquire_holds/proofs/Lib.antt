pub mod Laws
pub mod Empty
