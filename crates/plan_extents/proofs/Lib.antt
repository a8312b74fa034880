pub mod Pick
pub mod Take
pub mod Join
pub mod Unjoined
pub mod Insert
