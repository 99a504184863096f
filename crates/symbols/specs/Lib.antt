pub mod Text
pub mod Symbols
pub mod Names
pub mod Scan
pub mod Spelling
pub mod model
