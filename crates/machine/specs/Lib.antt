pub mod Limits
pub mod Operations
pub mod Run
pub mod Data
pub mod Instructions
pub mod Machine
pub mod model
