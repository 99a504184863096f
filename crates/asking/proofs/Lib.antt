pub mod Spelling
pub mod Lines
pub mod Choices
pub mod Sending
pub mod Examples
