pub mod Statuses
pub mod Good
