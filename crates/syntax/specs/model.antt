pub mod Operators
pub mod Says
pub mod Preludes
