pub mod Spelling
pub mod Rounding
pub mod Rows
pub mod Sizes
pub mod Reading
pub mod Seventeen
pub mod Back
