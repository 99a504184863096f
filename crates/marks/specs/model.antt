pub mod Computed
pub mod Judging
pub mod Parsing
