pub mod Decided
pub mod Statuses
pub mod Sent
pub mod Good
pub mod Examples
