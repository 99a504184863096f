pub mod Lines
pub mod Bytes
pub mod Pen
