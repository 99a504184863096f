pub mod Running
pub mod Good
