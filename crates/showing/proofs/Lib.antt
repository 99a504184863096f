pub mod Lines
pub mod Rows
pub mod Wide
pub mod Examples
