pub mod Laws
pub mod Told
pub mod Steps
pub mod Promises
pub mod Refuted
